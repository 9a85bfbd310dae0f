-- The words of the fields: what a line is, and the kind and the flags of a property.
use Rattle.std.specs.Prelude.{ℕ, List, Bool, true, false, codes, if◌then◌else◌, Option, Some, None}
use Rattle.std.specs.Str.{bytes_eq}
use Rattle.sq_schema.specs.declared.property.Kind.{Kind}
use Rattle.sq_schema.specs.declared.property.Kind.TheVariants.{Text, Integer, DateTime, YesNo}
use Rattle.sq_corpus.specs.declared.words.LineKind.{LineKind}
use Rattle.sq_corpus.specs.declared.words.LineKind.TheVariants.{Heading, PropertyRow, CallerRow, ItemHead, AllowList, DenyList, ValueRow, Unknown}
use Rattle.sq_corpus.specs.declared.words.Flags.{Flags}

-- what a line with this first field is
unfoldable pub line_kind : List ℕ → LineKind
line_kind word =
    if bytes_eq word (codes "SQCORPUS 1") then Heading
    else (if bytes_eq word (codes "property") then PropertyRow
    else (if bytes_eq word (codes "caller") then CallerRow
    else (if bytes_eq word (codes "item") then ItemHead
    else (if bytes_eq word (codes "allow") then AllowList
    else (if bytes_eq word (codes "deny") then DenyList
    else (if bytes_eq word (codes "value") then ValueRow
    else Unknown))))))

unfoldable pub kind_of : List ℕ → Option Kind
kind_of word =
    if bytes_eq word (codes "text") then Some Text
    else (if bytes_eq word (codes "integer") then Some Integer
    else (if bytes_eq word (codes "datetime") then Some DateTime
    else (if bytes_eq word (codes "yesno") then Some YesNo
    else None)))

abbrev pub flags : Bool → Bool → Bool → Flags
flags searchable multi refinable = record { searchable = searchable; multi = multi; refinable = refinable }

-- a dash, or one or more of `s`, `m` and `r` in this order
unfoldable pub flags_of : List ℕ → Option Flags
flags_of word =
    if bytes_eq word (codes "-") then Some (flags false false false)
    else (if bytes_eq word (codes "s") then Some (flags true false false)
    else (if bytes_eq word (codes "m") then Some (flags false true false)
    else (if bytes_eq word (codes "r") then Some (flags false false true)
    else (if bytes_eq word (codes "sm") then Some (flags true true false)
    else (if bytes_eq word (codes "sr") then Some (flags true false true)
    else (if bytes_eq word (codes "mr") then Some (flags false true true)
    else (if bytes_eq word (codes "smr") then Some (flags true true true)
    else None)))))))
