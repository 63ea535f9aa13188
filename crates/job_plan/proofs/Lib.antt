pub mod Catalogues
mod Made
pub mod Plans
pub mod Settings
pub mod Tables
pub mod laws
