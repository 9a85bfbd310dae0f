mod CountLemmas
mod FoundLemmas
mod IndexLemmas
mod OrderLemmas
mod PlaceLemmas
mod PostLemmas
mod RisingLemmas
mod ValueLemmas
