-- How many postings, numbers and claims there are to read.
use Rattle.std.specs.Prelude.{ℕ, ◌+◌, ◌*◌, Bool, ◌&&◌, List, [], ◌∷◌, length, sum_by, filter}
use Rattle.sq_tokens.specs.Pattern.{Phrase, is_token_asked}
use Rattle.sq_tokens.specs.Token.{Token, token_text}
use Rattle.sq_model.specs.Access.{allows, denies}
use Rattle.sq_model.specs.Limits.{most_copies}
use Rattle.sq_model.specs.Lists.{is_empty}
use Rattle.sq_model.specs.Looked.{looked_rows}
use Rattle.sq_model.specs.Passages.{Passage, passages, numbers}
use Rattle.sq_model.specs.Sums.{Counts, sum_of_leaves, sum_over}
use Rattle.sq_model.specs.declared.corpus.Item.{Item}
use Rattle.sq_model.specs.declared.corpus.Corpus.{Corpus}
use Rattle.sq_model.specs.declared.leaf.Leaf.{Leaf as Literal}
use Rattle.sq_model.specs.declared.fql.Look.{Look}
use Rattle.sq_model.specs.declared.fql.SpanTree.{SpanTree}
use Rattle.sq_model.specs.declared.fql.FTree.{FTree}

abbrev pub is_wanted : Bool → List ℕ → Token → Bool
is_wanted prefixed wanted token = is_token_asked prefixed wanted (token_text token)

-- how many tokens of a passage equal the wanted one, or begin with it
abbrev pub passage_count : Bool → List ℕ → Passage → ℕ
passage_count prefixed wanted passage = length (filter (is_wanted prefixed wanted) passage)

-- how many tokens of a property, over all items, equal the wanted one, or begin with it
abbrev pub posting_count : List Item → ℕ → List ℕ → Bool → ℕ
posting_count items property wanted prefixed =
    sum_by (λ item. sum_by (passage_count prefixed wanted) (passages item.values property)) items

-- those of the texts of a pattern, of which the last may be only the beginning of a token
abbrev pub pattern_count : List Item → ℕ → Bool → List (List ℕ) → ℕ
pattern_count items property prefixed [] = 0
pattern_count items property prefixed (text ∷ more) =
    posting_count items property text (prefixed && is_empty more) + pattern_count items property prefixed more

-- how many numbers of a property there are
abbrev pub number_count : List Item → ℕ → ℕ
number_count items property = sum_by (λ item. length (numbers item.values property)) items

-- how many items the claim admits and how many it denies, for each claim
abbrev pub claim_cost : Corpus → List (List ℕ) → ℕ
claim_cost corpus claims = sum_by (λ claim. length (filter (allows claim) corpus.items) + length (filter (denies claim) corpus.items)) claims

-- ---- what a query may read

-- the tokens of the corpus that a literal asks for, in each property that is looked at
abbrev pub phrase_count : Corpus → Look → Phrase → ℕ
phrase_count corpus look phrase =
    sum_by (λ property. pattern_count corpus.items property phrase.prefixed phrase.texts) (looked_rows look corpus.schema)

abbrev pub leaf_count : Corpus → Look → Literal → ℕ
leaf_count corpus look leaf = phrase_count corpus look leaf.pattern

abbrev pub spans_count : Corpus → Look → SpanTree → ℕ
spans_count corpus look tree = sum_of_leaves (leaf_count corpus look) tree

-- of each literal its tokens, and of each range the numbers of its property
abbrev pub reads_of : Corpus → Counts
reads_of corpus = record {
  spans = spans_count corpus;
  leaf = leaf_count corpus;
  range = number_count corpus.items;
  xrank = λ n. n;
}

abbrev pub reads : Corpus → FTree → ℕ
reads corpus tree = sum_over (reads_of corpus) tree

-- What a query costs: a proximity expression is read once for each of its copies.
abbrev pub cost : Corpus → FTree → ℕ
cost corpus tree = most_copies * reads corpus tree
