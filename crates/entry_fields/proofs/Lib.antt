pub mod WhatCodec
