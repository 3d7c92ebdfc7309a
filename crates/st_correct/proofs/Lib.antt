pub mod SameAsScan
