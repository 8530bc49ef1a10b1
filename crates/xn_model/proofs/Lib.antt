-- lists, bytes and tests
pub mod Lists
pub mod Bytes
pub mod Tests
pub mod Least
pub mod Puts
-- block 0
pub mod RootBytes
pub mod PointerBytes
-- lives and their changes
pub mod Lives
pub mod Statuses
pub mod Chains
pub mod States
pub mod Changes
pub mod Catalogue
pub mod Languages
pub mod Accept
pub mod AcceptedLives
pub mod Carry
pub mod Orders
-- calls
pub mod Given
pub mod Init
pub mod Edits
pub mod Roots
pub mod MoreTypes
pub mod Install
pub mod Begin
pub mod Ends
pub mod Floors
-- writes, lanes and drains
pub mod Writes
pub mod Flights
pub mod Lanes
pub mod LaneCalls
pub mod Lands
pub mod Drains
pub mod Rounds
-- waves
pub mod WaveSteps
pub mod WavePhases
pub mod Prefixes
pub mod WaveWrites
pub mod WaveEnds
pub mod WaveParts
pub mod Waves
pub mod Flush
pub mod Ranks
pub mod Mixes
pub mod WaveCalls
pub mod Picks
-- images and mounts
pub mod Reached
pub mod Bare
pub mod Queue
pub mod Walk
pub mod FoundBlocks
pub mod Mount
-- runs
pub mod Acts
pub mod Runs
pub mod Growth
pub mod Examples
pub mod WaveExamples
-- what crates above cite
pub mod ForCallers
