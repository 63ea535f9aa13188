pub mod Kept
pub mod Keys
pub mod RankedRows
pub mod Tells
pub mod Tops
