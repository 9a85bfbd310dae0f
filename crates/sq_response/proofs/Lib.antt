mod EscapedLemmas
