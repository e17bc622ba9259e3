-- What holds over set-up and re-set-up.
pub mod LinkSteps
pub mod SessionLinks
pub mod SessionLayers
pub mod Meetings
pub mod Standing
pub mod StationSteps
pub mod StationActs
pub mod PeerActs
pub mod BesideSessionRuns
