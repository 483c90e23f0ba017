mod Takes
-- Laws for whoever scans: the scan's start, steps and end.
pub mod Start
pub mod Follows
mod Stages
