-- The first site on the contig; without one there are no looks.
use borrow.Author.Rules.{rules}
use Rattle.search_looks.proofs.AskedContig.{asked_counted, first_ready, none_counted, sites_numbered}
use Rattle.search_looks.proofs.asked_looks.Goals as goal

pub contig_number-first-requires : goal.contig_number-first-requires
contig_number-first-requires c = sites_numbered c.requires.0

pub returns-then-sites-first : goal.returns-then-sites-first
returns-then-sites-first c = λ ready. none_counted ready _ c.contig_number-first.ensures c.if-sites-first.true

pub first_looks-requires : goal.first_looks-requires
first_looks-requires c = (first_ready c.requires.0 _ c.contig_number-first.ensures c.if-sites-first.false, c.requires.1, c.requires.2)

pub returns : goal.returns
returns c = λ ready. asked_counted ready _ c.contig_number-first.ensures c.if-sites-first.false c.first_looks.ensures
