-- Each clause is a lemma.
use Rattle.law_pieces.proofs.AddedLemmas.{kept_there}
use Rattle.law_pieces.proofs.BeginLemmas.{rebuilt_begun}
use Rattle.law_pieces.proofs.FinishLemmas.{rebuilt_joined, row_then, text_bytes, text_long}
use Rattle.law_pieces.proofs.RebuildLemmas.{cut_long, cut_row, cut_text, none_rebuilt, rebuilt_added, rebuilt_cut, rebuilt_missing, rebuilt_text}
use Rattle.law_pieces.proofs.rebuilding.pieces_add_up.Goals as goal

pub returns-clause-begun : goal.returns-clause-begun
returns-clause-begun c = λ acct object number total bytes room piece old new e short few a. rebuilt_begun piece e short few total a

pub returns-clause-empty : goal.returns-clause-empty
returns-clause-empty c = λ loose most room total heap t. none_rebuilt total t

pub returns-clause-cut : goal.returns-clause-cut
returns-clause-cut c = λ total added r before behind z most room number n k piece old new h p. (
  cut_row before z behind room piece h p,
  cut_long before z behind room piece h p,
  cut_text before z behind room piece h p,
  rebuilt_cut before z behind room piece h p,
)

pub returns-clause-step : goal.returns-clause-step
returns-clause-step c = λ total added r r' before behind z most room number n piece old new h at few a. rebuilt_added before z behind n piece h at few a

pub returns-clause-missing : goal.returns-clause-missing
returns-clause-missing c = λ total added r others most room heap h. rebuilt_missing h

pub returns-clause-finished : goal.returns-clause-finished
returns-clause-finished c = λ acct total next added r others most room number n object old new h few low j. (
  row_then room n acct h few low j,
  λ held text long fit none.
      let is = text_bytes room n acct h few low j held text long fit none in (is, text_long room n acct h few low j held text is),
  rebuilt_joined room n acct h few low j next,
)

pub returns-clause-text : goal.returns-clause-text
returns-clause-text c = λ total added r others most room heap h. rebuilt_text h

pub returns-clause-kept : goal.returns-clause-kept
returns-clause-kept c = λ total added r before behind z most room heap h. kept_there h.beside before z behind h.stand h.holds
