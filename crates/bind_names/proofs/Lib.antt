pub mod CallLists
pub mod Digits
pub mod Finds
pub mod Foreigns
pub mod Forms
pub mod SoughtParts
pub mod Stars
