-- How many bytes at either end of a text pass a test: no more than it has.
use Rattle.std.proofs.lemmas.List.Sums.{prefix_len-le-length, suffix_len-le-length}

pub ruleset ends = (prefix_len-le-length, suffix_len-le-length)
