pub mod Scanning
pub mod Scans
pub mod Images
pub mod Joined
pub mod SoundScans
pub mod Steps
