pub mod Lists
pub mod Growth
pub mod Left
pub mod Greatest
