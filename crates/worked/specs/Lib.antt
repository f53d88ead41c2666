pub mod Cases
pub mod CruxRecord
pub mod Worked
