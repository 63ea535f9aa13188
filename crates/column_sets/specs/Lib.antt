pub mod Sets
pub mod Places
