use Rattle.sdr_board.proofs.board.Board.publish.Given as goal

-- the journal that is published
abbrev pub ghosts-publish_named : goal.ghosts-publish_named
ghosts-publish_named a = record { journal = a.journal.now }
