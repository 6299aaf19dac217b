-- The new bytes follow the written part, and zeros follow the new bytes
use Rattle.std.proofs.Common.{◌≡◌, ◌+◌, ◌-◌, ◌≤◌, ◌++◌, ℕ, length, take, sym, ap, ◌∙◌, arith, length-take}
use Rattle.state_codec.proofs.SectorLemmas.{written_is, is_padded}
use Rattle.state_codec.proofs.sector.Sector.put.Goals as goal

-- The new bytes fit into the sector
fits : (used all k : ℕ) → all + k ≤ 512 → all ≡ used → used + k ≤ 512
fits used all k short is = omega (arith, short, is)

module _ (c : goal.After-self-1) where
  used : ℕ
  used = c.self.inside.used

  k : ℕ
  k = length c.args.text.now

  short : used + k ≤ 512
  unfolding used k
  short =
      let prefix : length (take used c.self.inside.bytes) ≡ used = omega (arith, length-take used c.self.inside.bytes, c.self.told, c.self.invariant.used) in
      fits used (length c.args.self.now) k c.requires (ap length (sym c.self.view_is) ∙ prefix)

pub invariant_of-self : goal.invariant_of-self
unfolding used k
invariant_of-self c =
    let padded-is = is_padded c.self.inside.bytes c.args.text.now c.self.inside.used (c.self.inside.used + length c.args.text.now - c.self.inside.used)
    (omega arith) (short c) c.self.told c.self.invariant.zeros in
    record { used = short c; zeros = rw c.copy_from_slice.ensures.after padded-is }

pub returns-clause-text : goal.returns-clause-text
unfolding used k
returns-clause-text c =
    let written = written_is c.self.inside.bytes c.args.text.now c.self.inside.used (c.self.inside.used + length c.args.text.now - c.self.inside.used)
    (omega arith) (short c) c.self.told c.self.invariant.zeros in
    rw c.copy_from_slice.ensures.after (written ∙ ap (λ t. t ++ c.args.text.now) c.self.view_is)
