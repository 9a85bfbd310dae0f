-- The head whose parts stand where spans say.
use Rattle.std.specs.Prelude.{List, ℕ, map, take}
use Rattle.httparse.specs.declared.spans.HeaderSpan.{HeaderSpan}
use Rattle.httparse.specs.declared.spans.RequestSpans.{RequestSpans}
use Rattle.httparse.specs.Spans.{span_bytes, header_bytes}
use Rattle.sq_head.specs.Head.{Head}

abbrev pub head_at : List ℕ → List HeaderSpan → RequestSpans → Head
head_at bytes headers spans = record {
  method = span_bytes bytes spans.method;
  target = span_bytes bytes spans.path;
  minor = spans.version;
  fields = map (header_bytes bytes) (take spans.headers headers);
}
