pub mod Numbers
pub mod Spans
pub mod Bodies
pub mod RoundTrip
pub mod Pushes
pub mod Finishes
pub mod Formed
pub mod Handed
