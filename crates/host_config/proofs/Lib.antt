pub mod ConfigText
