-- What an answer asks of a request.
use Rattle.std.specs.Prelude.{◌≡◌, ◌≤◌, ◌+◌, true, length, All}
use Rattle.sq_packet.specs.declared.request.RefinerSpec.{RefinerSpec}
use Rattle.sq_packet.specs.declared.request.Request.{Request}
use Rattle.sq_packet.specs.Refiners.{are_rising}
use Rattle.sq_packet.specs.Limits.{most_bounds, most_hits, greatest_page_end, most_properties, most_refiners, most_sorts}

-- no more bounds than may be asked, which rise strictly
pub record HasBuckets (refiner : RefinerSpec) : Type 0 where
  pub few : length refiner.bounds ≤ most_bounds
  pub rising : are_rising refiner.bounds ≡ true

-- The page lies within the first 10,000 hits, and no list is longer than may be asked.
pub record IsAsked (request : Request) : Type 0 where
  pub start : 1 ≤ request.start
  pub some : 1 ≤ request.count
  pub count : request.count ≤ most_hits
  pub range : request.start + request.count ≤ greatest_page_end
  pub properties : length request.properties ≤ most_properties
  pub refiners : length request.refiners ≤ most_refiners
  pub buckets : All HasBuckets request.refiners
  pub sorts : length request.sorts ≤ most_sorts
