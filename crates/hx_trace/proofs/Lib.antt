mod HeadWalkLemmas
mod NumberLemmas
mod RankLemmas
mod ScanLemmas
mod SoundLineLemmas
mod StandingLemmas
mod StayingNumberLemmas
mod WayLemmas
