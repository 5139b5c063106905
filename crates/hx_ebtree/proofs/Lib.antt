mod BitLemmas
mod CodeLemmas
mod PairLemmas
pub mod NodeLemmas
mod ShapeLemmas
mod KeyedLemmas
mod ChangeLemmas
mod WholeLemmas
mod SeekLemmas
mod PushLemmas
mod ExactLemmas
mod InsertLemmas
mod StandLemmas
pub mod FrameLemmas
mod InsertSteps
mod LongestLemmas
mod LongestSteps
mod LongestReads
mod RemoveLemmas
mod UnchainLemmas
mod NextLemmas
mod CutLemmas
mod MoveLemmas
mod DetachLemmas
mod RootLemmas
mod LaterLemmas
mod RemoveSteps
mod PlaceLemmas
pub mod DistinctLemmas
mod SplitLemmas
mod CommonLemmas
