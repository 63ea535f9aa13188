pub mod Checked
pub mod Faults
pub mod Goes
pub mod Opening
pub mod Stands
