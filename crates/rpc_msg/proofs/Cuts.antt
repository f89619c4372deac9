-- What a piece brings, taken part by part.
use Rattle.std.proofs.Common.{◌≡◌, ℕ, ◌+◌, ◌-◌, ◌<◌, ◌≤◌, ◌==◌, false, List, [], ◌∷◌, ◌++◌, length, take, drop, refl, sym, ap, ◌∙◌, inl, inr, arith, append_assoc, length-append, length-take, take-append-drop, slice_index}
use Rattle.std.proofs.Math.ListN.{drop_of_length-le}
use Rattle.std.proofs.lemmas.Bool.{ne_eqb, eq-eqb, lt-ltb, le-ltb}
use Rattle.std.proofs.lemmas.Bool.Decides.{eqb_tells}
use Rattle.rpc_msg.specs.Underway.{Under, Step, Goes, Ends, Passes, Cut, Part, cut, cut_on, on_byte, on_body, on_header_byte, Makes, MakesCut, Feed, Feeds}
use Rattle.std.specs.declared.option.Option.TheVariants.{None}
use Rattle.rpc_msg.specs.declared.records.Fed.TheVariants as fed
use Rattle.rpc_msg.specs.declared.fragments.Progress.{Progress}

-- the first byte of a piece where a header is to come
pub cut-header : (under : Under) (piece : List ℕ) → 0 < length piece → under.lacking ≡ 0
    → cut under piece ≡ cut_on (on_header_byte under (slice_index piece 0)) (drop 1 piece) (λ next. cut next (drop 1 piece))
unfolding cut on_byte
cut-header under [] some lacks = absurd (omega arith)
cut-header under (byte ∷ rest) some lacks = rw (le-ltb 0 under.lacking (omega arith)) refl

-- what a part of a piece made of it is what it does
pub made_cut : (step : Step) (before : Cut) (left : List ℕ) (made : Progress) (new : Under)
    → before ≡ cut_on step left (λ next. cut next left) → Makes step made new → MakesCut before left made new
made_cut (Goes under) before left made new is made_is = rw (made_is.0, made_is.1) is
made_cut (Ends joined) before left made new is made_is = rw (made_is.0, made_is.1) is
made_cut (Passes sum) before left made new is made_is = rw made_is is

-- the piece was taken whole and ended no record
pub feeds_need : (old new : Feed) (piece : List ℕ) (taken : ℕ) (now : Under) → old.large ≡ None
    → taken ≤ length piece → length piece ≤ taken → cut old.under piece ≡ cut now (drop taken piece)
    → new.under ≡ now → new.large ≡ None → Feeds old.large old piece (taken, fed.Need) new
unfolding cut
feeds_need old new piece taken now small within all is under large =
    let none : drop taken piece ≡ [] = drop_of_length-le piece all in
    let part : cut old.under piece ≡ Part now = rw none at is in
    rw (small, part) (record { taken_whole = omega arith; answer = refl; under_way = under; small = large })
