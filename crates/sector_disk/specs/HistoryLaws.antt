-- Laws of the history of a device.
use Rattle.std.proofs.Common.{◌≡◌, ℕ, ◌+◌, ◌≤◌, List, drop, sym, ◌∙◌, ap, subst, arith}
use Rattle.std.proofs.lemmas.List.{take_all, drop_all}
use Rattle.sector_disk.specs.Model.{Event, run, IsImage, finished}
use Rattle.sector_disk.specs.History.{History, MayLeaveIn, clock_in, MayHaveLeftIn}

pub history_counts_now : (c : History) (t : ℕ) (image : List ℕ) → t ≤ clock_in c → MayLeaveIn c image → MayHaveLeftIn c t c.calls image
history_counts_now c t image le is = record {
  moment = clock_in c;
  begun = le;
  reached = omega arith;
  count = ap (λ (l : List Event). c.calls + finished l) (drop_all (clock_in c) c.events (omega arith)) ∙ omega arith;
  is_image = subst (λ (l : List Event). IsImage c.sectors (run c.start l) image) (sym (take_all (clock_in c) c.events (omega arith))) is;
}

pub history_only_now : (c : History) (calls : ℕ) (image : List ℕ) → MayHaveLeftIn c (clock_in c) calls image → (calls ≡ c.calls) × MayLeaveIn c image
history_only_now c calls image left =
    let all : clock_in c ≤ left.moment = left.begun in
    let none : finished (drop left.moment c.events) ≡ 0 = ap finished (drop_all left.moment c.events all) in
    (omega (arith, left.count, none), subst (λ (l : List Event). IsImage c.sectors (run c.start l) image) (take_all left.moment c.events all) left.is_image)

pub history_since_earlier : (c : History) (t u calls : ℕ) (image : List ℕ) → t ≤ u → MayHaveLeftIn c u calls image → MayHaveLeftIn c t calls image
history_since_earlier c t u calls image le left = record {
  moment = left.moment;
  begun = omega (arith, le, left.begun);
  reached = left.reached;
  count = left.count;
  is_image = left.is_image;
}
