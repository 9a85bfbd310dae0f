mod LookedLemmas
mod SeenLemmas
mod Steps
