-- Lemmas about texts that are written one after another, and flushed.
use Rattle.std.proofs.Common.{◌≡◌, ◌∙◌, ℕ, ◌+◌, Bool, true, false, List, [], ◌∷◌, ◌++◌, None, Result, Ok, Err, length, map, take, drop}
use Rattle.std.proofs.Common.{refl, sym, ap, subst, append_assoc, append-nil, take-append-drop}
use lib.Seq.{take-append_seam}
use Rattle.std.proofs.Math.Seq.{take-append-add}
use Rattle.std.proofs.KnownBytes.{Appends-kept, Appends-nil, Appends-trans}
use Rattle.std.specs.Prelude.{OnErr}
use Rattle.std.proofs.lemmas.Grind.{flat_map-append}
use Rattle.command_server.specs.Streams.{Event, Extends, Flushed, Flushes, WritesAndFlushes, IsPart, IsPartlyPut, Put, Stays, Stream, put_by, put_in}
use Rattle.command_server.specs.Strict.{Follows, FlushesAllow}
use Rattle.command_server.specs.StrictValue.{FollowsSince}
use Rattle.command_server.specs.declared.strict.LastLines.{LastLines}

pub extends_none : (x : Stream) → Extends x x [] []
extends_none x = record { written = Appends-nil x.contents; noted = sym (append-nil x.events) }

pub extends_on : (x y z : Stream) (e f : List Event) (t u : List ℕ) → Extends x y e t → Extends y z f u → Extends x z (e ++ f) (t ++ u)
extends_on x y z e f t u p q = record {
  written = Appends-trans x.contents y.contents z.contents t u p.written q.written;
  noted = q.noted ∙ ap (λ l. l ++ f) p.noted ∙ append_assoc x.events e f;
}

-- if nothing was written, the empty text was written and flushed
pub none_put : (x : Stream) (calls : ℕ) → IsPartlyPut x x calls []
none_put x calls = record { len = 0; texts = []; part = refl; extends = extends_none x }

-- a prefix of the first text is a prefix of both
pub part_front : (x y : Stream) (n : ℕ) (t u : List ℕ) → IsPart x y n t → IsPartlyPut x y n (t ++ u)
part_front x y n t u p =
    let a : List ℕ = take p.len t in
    let whole : t ++ u ≡ a ++ (drop p.len t ++ u) = ap (λ l. l ++ u) (sym (take-append-drop p.len t)) ∙ append_assoc a (drop p.len t) u in
    let same : take (length a) (t ++ u) ≡ a = ap (take (length a)) whole ∙ take-append_seam a (drop p.len t ++ u) in
    record { len = length a; texts = a ∷ []; part = append-nil a ∙ sym same; extends = subst (Extends x y (Put n a ∷ [])) (sym same) p.put }

-- writing one text, and then a second one with its flush, writes and flushes both
pub hands_after : {T E : Type 0} (r : Result T E) (x y z : Stream) (n : ℕ) (t u : List ℕ) → Extends x y (Put n t ∷ []) t → WritesAndFlushes y z r n u → WritesAndFlushes x z r n (t ++ u)
hands_after (Ok done) x y z n t u p q = record {
  texts = t ∷ q.texts;
  whole = ap (λ l. t ++ l) q.whole;
  extends = extends_on x y z (Put n t ∷ []) (map (Put n) q.texts ++ Flushed n ∷ []) t u p q.extends;
}
hands_after (Err fault) x y z n t u p q = record {
  len = length t + q.len;
  texts = t ∷ q.texts;
  part = ap (λ l. t ++ l) q.part ∙ sym (take-append-add t u q.len);
  extends = subst (Extends x z (map (Put n) (t ∷ q.texts))) (sym (take-append-add t u q.len))
      (extends_on x y z (Put n t ∷ []) (map (Put n) q.texts) t (take q.len u) p q.extends);
}

-- after an event that writes nothing, the text stays the same
extends_kept : (x y : Stream) (e : List Event) → Stays x y e → Extends x y e []
extends_kept x y e p = record { written = Appends-kept x.contents x.contents y.contents [] (Appends-nil x.contents) p.kept; noted = p.noted }

pub hands_nothing : {T E : Type 0} (r : Result T E) (x y : Stream) (n : ℕ) → Flushes x y r n → WritesAndFlushes x y r n []
hands_nothing (Ok done) x y n p = record { texts = []; whole = refl; extends = extends_kept x y (Flushed n ∷ []) p }
hands_nothing (Err fault) x y n p = record { len = 0; texts = []; part = refl; extends = extends_kept x y [] p }

-- ---- a `StrictWriter`

lets_more : (text : List ℕ) (a b : List Event) → FlushesAllow text a → FlushesAllow (text ++ put_by a) b → FlushesAllow text (a ++ b)
lets_more text [] b la lb = subst (λ t. FlushesAllow t b) (append-nil text) lb
lets_more text (Put n t ∷ a) b la lb = lets_more (text ++ t) a b la (subst (λ t. FlushesAllow t b) (sym (append_assoc text t (put_by a))) lb)
lets_more text (Flushed n ∷ a) b la lb = (la.0, lets_more text a b la.1 lb)

-- one more event appends its text
put_more : (events : List Event) (event : Event) → put_by (events ++ event ∷ []) ≡ put_by events ++ put_in event
put_more events event = flat_map-append put_in events (event ∷ []) ∙ ap (λ l. put_by events ++ l) (append-nil (put_in event))

module _ (x y z : Stream) (l : LastLines) (f : FollowsSince x y l) where
  pub follows_put : (m : LastLines) (n : ℕ) (t : List ℕ) → Extends y z (Put n t ∷ []) t → ((text : List ℕ) → Follows text l → Follows (text ++ t) m) → FollowsSince x z m
  follows_put m n t put more =
      let same : put_by f.events ++ t ≡ put_by (f.events ++ Put n t ∷ []) = sym (put_more f.events (Put n t)) in
      record {
        events = f.events ++ Put n t ∷ [];
        put = subst (Extends x z (f.events ++ Put n t ∷ [])) same (extends_on x y z f.events (Put n t ∷ []) (put_by f.events) t f.put put);
        follows = subst (λ text. Follows text m) same (more (put_by f.events) f.follows);
        allows = lets_more [] f.events (Put n t ∷ []) f.allows tt;
      }

  follows_flush : (n : ℕ) → Stays y z (Flushed n ∷ []) → l.reported ≡ None → FollowsSince x z l
  follows_flush n stays none =
      let same : put_by f.events ++ [] ≡ put_by (f.events ++ Flushed n ∷ []) = sym (put_more f.events (Flushed n)) in
      let text : put_by f.events ≡ put_by (f.events ++ Flushed n ∷ []) = sym (append-nil (put_by f.events)) ∙ same in
      record {
        events = f.events ++ Flushed n ∷ [];
        put = subst (Extends x z (f.events ++ Flushed n ∷ [])) same
            (extends_on x y z f.events (Flushed n ∷ []) (put_by f.events) [] f.put (extends_kept y z (Flushed n ∷ []) stays));
        follows = subst (λ text. Follows text l) text f.follows;
        allows = lets_more [] f.events (Flushed n ∷ []) f.allows (sym f.follows.1 ∙ none, tt);
      }

  -- after the flush of a writer that has not failed, the kept lines are still those of the text
  pub follows_flushed : {T E : Type 0} (r : Result T E) (n : ℕ) (failed : Bool) → Flushes y z r n → OnErr r (failed ≡ true) → failed ≡ false → l.reported ≡ None → FollowsSince x z l
  follows_flushed (Ok done) n failed flushes reported whole none = follows_flush n flushes none
  follows_flushed (Err fault) n failed flushes reported whole none = absurd (let h : true ≡ false = sym reported ∙ whole in cc)
