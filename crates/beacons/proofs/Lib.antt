-- Theorems on the beacon, and the laws they rest on.
pub mod BeaconLaws
pub mod ExtrasLaws
pub mod RoundTrip
pub mod Beyond
pub mod CutShort
