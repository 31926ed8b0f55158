use Rattle.entry_fields.proofs.WhatCodec.{what_codec}
use Rattle.entry_fields.proofs.laws.spelling_is_read.Goals as goal

pub returns : goal.returns
returns c = λ what rest fits typed. what_codec.again what rest (fits, typed)
