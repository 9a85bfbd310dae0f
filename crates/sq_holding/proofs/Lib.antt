mod AlikeLemmas
mod ClaimLemmas
mod ContentLemmas
