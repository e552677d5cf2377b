pub mod Operations
pub mod Serving
pub mod Streaming
pub mod inside
