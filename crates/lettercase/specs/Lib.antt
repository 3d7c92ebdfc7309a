pub mod Lettercase
