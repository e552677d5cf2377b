pub mod Checksums
pub mod Chunks
pub mod DigestLists
pub mod Records
