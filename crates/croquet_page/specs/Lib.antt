pub mod Inputs
pub mod Numbers
pub mod Pages
pub mod Opening
pub mod Seats
pub mod Lending
