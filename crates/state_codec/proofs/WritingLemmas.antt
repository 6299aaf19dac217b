-- Writing the vehicles one after the other
use Rattle.std.proofs.Common.{◌≡◌, ℕ, ◌+◌, ◌<◌, List, [], ◌++◌, length, get_or, take, sym, ap, ◌∙◌, append_assoc, arith, length-take}
use Rattle.std.proofs.lemmas.List.{take_more}
use Rattle.state_codec.specs.declared.version.Version.TheVariants.{Two}
use Rattle.state_codec.specs.Bytes.{count_bytes, stops_bytes, vehicles_bytes}
use Rattle.state_codec.proofs.RouteLaws.{vehicles_one}

pub one_more : (pins routes : List (List ℕ)) (k : ℕ) (out old : List ℕ) → length pins ≡ length routes → k < length pins → out ≡ old ++ vehicles_bytes Two (take k pins) (take k routes)
    → out ++ (count_bytes Two (length (get_or pins k [])) ++ (count_bytes Two (length (get_or routes k [])) ++ stops_bytes Two (get_or routes k []))) ≡ old
    ++ vehicles_bytes Two (take (k + 1) pins) (take (k + 1) routes)
one_more pins routes k out old same below is =
    let word = count_bytes Two (length (get_or pins k [])) ++ (count_bytes Two (length (get_or routes k [])) ++ stops_bytes Two (get_or routes k [])) in
    let more : vehicles_bytes Two (take (k + 1) pins) (take (k + 1) routes) ≡ vehicles_bytes Two (take k pins) (take k routes) ++ word =
    rw (take_more pins k [] below, take_more routes k [] (omega (arith, same, below)))
    (vehicles_one Two (take k pins) (take k routes) (get_or pins k []) (get_or routes k []) (omega (arith, same, length-take k pins, length-take k routes)))
    in
    ap (λ t. t ++ word) is ∙ append_assoc old (vehicles_bytes Two (take k pins) (take k routes)) word ∙ ap (λ t. old ++ t) (sym more)

pub one_written : (pins routes : List (List ℕ)) (k : ℕ) (out old new pin route : List ℕ) → length pins ≡ length routes → k < length pins → out ≡ old
    ++ vehicles_bytes Two (take k pins) (take k routes) → pin ≡ get_or pins k [] → route ≡ get_or routes k []
    → new ≡ out ++ (count_bytes Two (length pin) ++ (count_bytes Two (length route) ++ stops_bytes Two route)) → new ≡ old ++ vehicles_bytes Two (take (k + 1) pins) (take (k + 1) routes)
one_written pins routes k out old new pin route same below is p r e =
    e ∙ ap (λ q. out ++ (count_bytes Two (length q) ++ (count_bytes Two (length route) ++ stops_bytes Two route))) p
    ∙ ap (λ q. out ++ (count_bytes Two (length (get_or pins k [])) ++ (count_bytes Two (length q) ++ stops_bytes Two q))) r
    ∙ one_more pins routes k out old same below is

-- The fields of a stop, written one after the other, are the bytes of the stop
pub in_six : (out n x y d e l s : List ℕ) → (((((out ++ n) ++ (x ++ y)) ++ d) ++ e) ++ l) ++ s ≡ out ++ (n ++ (x ++ (y ++ (d ++ (e ++ (l ++ s))))))
in_six out n x y d e l s = simp append_assoc

-- The parts of a job, written by five calls, are the bytes of the job
pub in_five : (out h n r v w one two three four five : List ℕ) → one ≡ out ++ h → two ≡ one ++ n → three ≡ two ++ r → four ≡ three ++ v → five ≡ four ++ w → five ≡ out ++ (h ++ (n ++ (r ++ (v ++ w))))
in_five out h n r v w one two three four five a b c d e =
    e ∙ ap (λ z. z ++ w) (d ∙ ap (λ z. z ++ v) (c ∙ ap (λ z. z ++ r) (b ∙ ap (λ z. z ++ n) a))) ∙ simp append_assoc
