mod TrimLemmas
