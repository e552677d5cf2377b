pub mod Adapters
pub mod WireFormats
pub mod AdapterMessage
pub mod AdapterLaws
