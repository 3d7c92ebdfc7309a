pub mod Laws
pub mod Signs
pub mod RoundTrip
pub mod Stores
