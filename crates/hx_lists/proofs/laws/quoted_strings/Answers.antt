use Rattle.hx_lists.proofs.QuotedLemmas.{hdr_pieces-quoted, hdr_pieces-unended, hdr_pieces-half_pair, hdr_pieces-other}
use Rattle.hx_lists.proofs.laws.quoted_strings.Goals as goal

pub returns-clause-quoted : goal.returns-clause-quoted
returns-clause-quoted c = hdr_pieces-quoted

pub returns-clause-unended : goal.returns-clause-unended
returns-clause-unended c = hdr_pieces-unended

pub returns-clause-half_pair : goal.returns-clause-half_pair
returns-clause-half_pair c = hdr_pieces-half_pair

pub returns-clause-other : goal.returns-clause-other
returns-clause-other c = hdr_pieces-other
