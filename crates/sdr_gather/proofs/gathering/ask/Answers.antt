use Rattle.std.proofs.Common.{◌≡◌, ◌<◌, length, sym, ap, ◌∙◌, subst, IfOk}
use Rattle.sdr_base.specs.Causes.{Rose}
use Rattle.sdr_base.specs.Media.{GivesFrom, file_bytes}
use Rattle.sdr_machine.specs.Ground.{lies_with_media}
use Rattle.sdr_model.specs.Pieces.{piece_length}
use Rattle.sdr_model.specs.declared.piece.Piece.TheVariants as pieces
use Rattle.sdr_gather.specs.Gathering.{HasGiven, OfMedia}
use Rattle.sdr_gather.proofs.GatheringLemmas.{fault_of_media, file_read_given, item_read_given, known_given, of_media}
use Rattle.sdr_gather.proofs.gathering.ask.Goals as goal

pub returns-in-Known-clause-had : goal.returns-in-Known-clause-had
returns-in-Known-clause-had g c =
    let Short = OfMedia (lies_with_media c.args.piece.now) (Rose (g.M.Media.short c.args.media.now) (g.M.Media.short c.args.media.now)) in
    let copied : c.copy_from_slice.new.self ≡ c.in-Known.bytes = search (c.copy_from_slice.ensures.after, c.as_slice.ensures) in
    subst (λ p. HasGiven (g.M.Media.told c.args.media.now) p c.copy_from_slice.new.self (length c.copy_from_slice.new.self) Short)
    (sym c.in-Known.is)
    (subst (λ l. HasGiven (g.M.Media.told c.args.media.now) (pieces.Known c.in-Known.bytes) l (length l) Short) (sym copied)
    (known_given (g.M.Media.told c.args.media.now) c.in-Known.bytes Short))

pub returns-in-File-clause-had : goal.returns-in-File-clause-had
returns-in-File-clause-had g c =
    let Short = OfMedia (lies_with_media c.args.piece.now) (Rose (g.M.Media.short c.args.media.now) (g.M.Media.short c.file_read.new.self)) in
    let asked : length c.file_read.new.into ≡ c.in-File.length =
    c.file_read.auto.into ∙ c.requires.whole ∙ ap piece_length c.in-File.is in
    subst (λ p. IfOk c.file_read.result (λ have. HasGiven (g.M.Media.told c.args.media.now) p c.file_read.new.into have Short))
    (sym c.in-File.is)
    (file_read_given (g.M.Media.told c.args.media.now) c.in-File.offset c.in-File.length c.file_read.new.into Short asked
    c.in-File.path c.file_read.result
    (subst (λ path. IfOk c.file_read.result (λ n. GivesFrom (file_bytes (g.M.Media.told c.args.media.now) path) c.in-File.offset n c.file_read.new.into))
    c.as_slice-in-File.ensures c.file_read.ensures.bytes)
    c.file_read.ensures.bound (of_media (λ n. n < length c.file_read.new.into) (Rose (g.M.Media.short c.args.media.now) (g.M.Media.short c.file_read.new.self)) (lies_with_media c.args.piece.now) c.file_read.result
    (ap lies_with_media c.in-File.is) c.file_read.ensures.short))

pub returns-in-Bulk-clause-had : goal.returns-in-Bulk-clause-had
returns-in-Bulk-clause-had g c =
    let Short = OfMedia (lies_with_media c.args.piece.now) (Rose (g.M.Media.short c.args.media.now) (g.M.Media.short c.bulk_read.new.self)) in
    let asked : length c.bulk_read.new.into ≡ c.in-Bulk.length =
    c.bulk_read.auto.into ∙ c.requires.whole ∙ ap piece_length c.in-Bulk.is in
    subst (λ p. IfOk c.bulk_read.result (λ have. HasGiven (g.M.Media.told c.args.media.now) p c.bulk_read.new.into have Short))
    (sym c.in-Bulk.is)
    (item_read_given (g.M.Media.told c.args.media.now) c.in-Bulk.offset c.in-Bulk.length c.bulk_read.new.into Short asked
    c.in-Bulk.item c.bulk_read.result c.bulk_read.ensures.bytes c.bulk_read.ensures.bound (of_media (λ n. n < length c.bulk_read.new.into) (Rose (g.M.Media.short c.args.media.now) (g.M.Media.short c.bulk_read.new.self)) (lies_with_media c.args.piece.now) c.bulk_read.result
    (ap lies_with_media c.in-Bulk.is) c.bulk_read.ensures.short))

pub returns-in-File-clause-failed : goal.returns-in-File-clause-failed
returns-in-File-clause-failed g c = fault_of_media (Rose (g.M.Media.faults c.args.media.now) (g.M.Media.faults c.file_read.new.self)) (lies_with_media c.args.piece.now) c.file_read.result (ap lies_with_media c.in-File.is) c.file_read.ensures.cause.failed

pub returns-in-Bulk-clause-failed : goal.returns-in-Bulk-clause-failed
returns-in-Bulk-clause-failed g c = fault_of_media (Rose (g.M.Media.faults c.args.media.now) (g.M.Media.faults c.bulk_read.new.self)) (lies_with_media c.args.piece.now) c.bulk_read.result (ap lies_with_media c.in-Bulk.is) c.bulk_read.ensures.cause.failed
