pub mod Encoding
pub mod EventReading
