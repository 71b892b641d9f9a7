-- The laws of the calls that rest on a definition which an edit in must-fail/ changes.
pub mod Passed
pub mod Sound
pub mod Order
pub mod Granted
pub mod Locks
pub mod Lookup
pub mod Numbers
pub mod Parts
pub mod Based
