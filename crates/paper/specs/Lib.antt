-- Document 01, the base, as definitions (its facts in words: docs/RULES.md). Its sections, in its order, and the modules that render them:
--   Frames                       Frames
--   What the controller replies  Step: when each reply is given, their order, what a refusal changes, one call
--   Time and mode                Clock, Mode
--   Impact                       Impact
--   Commands                     Commands
--   Streams and packets          Streams, Packets, Queue, Housekeeping
--   Status words                 Status
--   Reader                       Reader
--   Examples                     Examples: the items marked P and the session
-- Sentences of several sections meet in the controller's state (Controller) and in what each accepted frame does to it (Acts). Calls one
-- after another are Runs, what they add up to is History.
-- Beside them examples worked out by hand: the words of their tables (WorkedLines), the tables by document 01's sections (WorkedReplies to
-- WorkedReader, WorkedCounts), and what they claim (Worked).
pub mod Frames
pub mod Step
pub mod Clock
pub mod Mode
pub mod Impact
pub mod Commands
pub mod Streams
pub mod Packets
pub mod Queue
pub mod Housekeeping
pub mod Status
pub mod Reader
pub mod Examples
pub mod Controller
pub mod Acts
pub mod Runs
pub mod History
pub mod WorkedLines
pub mod WorkedReplies
pub mod WorkedModes
pub mod WorkedImpact
pub mod WorkedPackets
pub mod WorkedHousekeeping
pub mod WorkedStatus
pub mod WorkedReader
pub mod WorkedCounts
pub mod Worked
