-- Where the lengths fit, every byte is written; otherwise the bytes are those that were lent.
use mathlib.Core.Path.{sym, ◌∙◌}
use Rattle.block.proofs.Filling.{fitting, unfilled, filled_by}
use Rattle.block.proofs.fill.fill.Goals as goal

pub returns-then-not-fits : goal.returns-then-not-fits
returns-then-not-fits c = let f = sym c.fits.ensures ∙ c.if-not-fits.true in record {
  value = sym f;
  out_after = unfilled _ _ _ _ f;
}

pub entries-requires : goal.entries-requires
entries-requires c =
    let f = sym c.fits.ensures ∙ c.if-not-fits.false in fitting _ _ _ f

pub returns : goal.returns
returns c =
    let f = sym c.fits.ensures ∙ c.if-not-fits.false in
    record {
      value = sym f;
      out_after = c.entries.ensures ∙ filled_by _ _ _ _ f;
    }
