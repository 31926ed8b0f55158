pub mod Numerals
pub mod WordLaws
pub mod Rows
pub mod TextLaws
pub mod Loops
pub mod Printed
pub mod ReadAnswers
