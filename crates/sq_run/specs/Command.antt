-- What the words of a command line ask for.
use Rattle.std.specs.Prelude.{ℕ, ◌≤◌, Bool, true, false, ◌&&◌, nat_le, List, [], ◌∷◌, Option, Some, None, option_map, codes, if◌then◌else◌}
use Rattle.std.specs.Char.{is_ascii_digit}
use Rattle.std.specs.List.{list_all}
use Rattle.std.specs.Str.{bytes_eq}
use Rattle.std.specs.Str.Parse.{digits_value}
use Rattle.sq_rehearsal.specs.Rehearsal.{most_rehearsed}
use Rattle.sq_packet.specs.declared.request.Language.{Language}
use Rattle.sq_packet.specs.declared.request.Language.TheVariants.{Kql, Fql}
use Rattle.sq_run.specs.declared.command.Command.{Command}
use Rattle.sq_run.specs.declared.command.Command.TheVariants.{Over, Serve, Rehearse}
use Rattle.sq_run.specs.declared.command.Task.{Task}
use Rattle.sq_run.specs.declared.command.Task.TheVariants.{Check, Ask, Lower, Packet}

-- what is done with a corpus, by the texts of the words
pub data Work : Type 0 where
  Checking : Work
  Asking : List ℕ → Language → List ℕ → Work
  Lowering : List ℕ → Work
  Packing : List ℕ → Work

-- what the words ask for: something is done with a corpus, so many connections are served over it, or a corpus of so many items is made and asked
pub data Order : Type 0 where
  Working : Work → Order
  Serving : ℕ → Order
  Rehearsing : ℕ → Order

abbrev pub language_of : List ℕ → Option Language
language_of word = if bytes_eq word (codes "kql") then Some Kql else (if bytes_eq word (codes "fql") then Some Fql else None)

abbrev pub asking : List ℕ → Option Language → List ℕ → Option Order
asking caller None text = None
asking caller (Some language) text = Some (Working (Asking caller language text))

-- one or more digits, of which the first is not 0
abbrev pub is_plain : List ℕ → Bool
is_plain [] = false
is_plain (c ∷ cs) = nat_le 49 c && nat_le c 57 && list_all is_ascii_digit cs

-- the number that a word writes so, if it is at most `most`
abbrev pub count_to : ℕ → List ℕ → Option ℕ
count_to most word = if is_plain word && nat_le (digits_value 10 word) most then Some (digits_value 10 word) else None

-- how many connections are served at most
abbrev pub most_served : ℕ
most_served = 1_000_000

abbrev pub serving_of : List ℕ → Option Order
serving_of word = option_map Serving (count_to most_served word)

abbrev pub rehearsing_of : List ℕ → Option Order
rehearsing_of word = option_map Rehearsing (count_to most_rehearsed word)

-- two words
abbrev pub order_of_two : List ℕ → List ℕ → Option Order
order_of_two word text =
    if bytes_eq word (codes "lower") then Some (Working (Lowering text))
    else (if bytes_eq word (codes "packet") then Some (Working (Packing text))
    else (if bytes_eq word (codes "serve") then serving_of text
    else (if bytes_eq word (codes "rehearse") then rehearsing_of text else None)))

-- one word
abbrev pub order_of_one : List ℕ → Option Order
order_of_one word = if bytes_eq word (codes "check") then Some (Working Checking) else None

-- four words
abbrev pub order_of_four : List ℕ → List ℕ → List ℕ → List ℕ → Option Order
order_of_four word caller language text = if bytes_eq word (codes "ask") then asking caller (language_of language) text else None

-- What the words ask for, if they are a command.
abbrev pub order_of : List (List ℕ) → Option Order
order_of (word ∷ []) = order_of_one word
order_of (word ∷ text ∷ []) = order_of_two word text
order_of (word ∷ caller ∷ language ∷ text ∷ []) = order_of_four word caller language text
order_of words = None

-- a task and a command without their references
unfoldable pub work_of : Task → Work
work_of Check = Checking
work_of (Ask caller language text) = Asking caller.now language text.now
work_of (Lower text) = Lowering text.now
work_of (Packet caller) = Packing caller.now

unfoldable pub plain : Command → Order
plain (Over task) = Working (work_of task)
plain (Serve count) = Serving count
plain (Rehearse count) = Rehearsing count

-- the number of items of a rehearsal is in its bounds
abbrev pub IsInBounds : Order → Type 0
IsInBounds (Working work) = Unit {0}
IsInBounds (Serving count) = Unit {0}
IsInBounds (Rehearsing count) = (1 ≤ count) × (count ≤ most_rehearsed)

-- which of what is handed in an order touches
abbrev pub reads_corpus : Option Order → Bool
reads_corpus None = false
reads_corpus (Some (Working work)) = true
reads_corpus (Some (Serving count)) = true
reads_corpus (Some (Rehearsing count)) = false

abbrev pub work_reads_input : Work → Bool
work_reads_input Checking = false
work_reads_input (Asking caller language text) = false
work_reads_input (Lowering text) = false
work_reads_input (Packing caller) = true

abbrev pub reads_input : Option Order → Bool
reads_input None = false
reads_input (Some (Working work)) = work_reads_input work
reads_input (Some (Serving count)) = false
reads_input (Some (Rehearsing count)) = false

abbrev pub serves : Option Order → Bool
serves None = false
serves (Some (Working work)) = false
serves (Some (Serving count)) = true
serves (Some (Rehearsing count)) = false
