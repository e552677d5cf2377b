-- Definitions that only private functions and proofs use. No public contract depends on them.
pub mod Arithmetic
pub mod Blocks
pub mod Hash
pub mod Looks
pub mod Rows
pub mod Tables
