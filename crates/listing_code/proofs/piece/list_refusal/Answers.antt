-- The one line of a refusal.
use Rattle.std.proofs.Common.{rules}
use Rattle.characters.specs.Letters.{letters}
use Rattle.listing_text.specs.Listing.{text_line, refused_text}
use Rattle.listing_pieces.specs.declared.piece.Place.TheVariants as place
use Rattle.listing_pieces.proofs.Puts.{both}
use Rattle.listing_pieces.proofs.Pieces.{one_line_lem}
use Rattle.listing_code.proofs.piece.list_refusal.Goals as goal

pub returns-in-Start-clause-leaves : goal.returns-in-Start-clause-leaves
unfolding letters text_line
returns-in-Start-clause-leaves c =
    rw c.in-Start.is
    (one_line_lem 14 c.args.buf.now c.put_bytes-end.new.buf (refused_text c.args.refusal) c.put_bytes-end.result place.Start (search rules)
    (both (search rules) (rw (c.from.ensures, c.number.ensures) at c.put_counted-first.ensures) c.put_bytes-end.ensures)).1
