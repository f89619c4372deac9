-- How a copy over a net ends, by what was done and what was put.
use Rattle.std.proofs.Common.{◌≡◌, ℕ, List, Option, [], ◌∷◌, refl, sym, subst, inl, inr, arith}
use Rattle.net_links.specs.Links.{Standing}
use Rattle.client_steps.specs.declared.setting.Setting.{Setting}
use Rattle.single_copy.specs.Turns.{Conduct}
use Rattle.single_copy.specs.declared.answers.Copied.{Copied}
use Rattle.single_copy.specs.declared.answers.Copied.TheVariants.{Stable, Failed, LinkFault, DrawFault}
use Rattle.std.specs.Io.KnownBytes.{Appends}
use Rattle.linked_copy.specs.Copying.{Made, Starved}
use Rattle.linked_copy.specs.Ends.{CopyEnds, CopyMade}
use Rattle.linked_copy.specs.Lines.{end_of, lines_of}
use Rattle.linked_copy.specs.Nets.{Books, Dials, HungUp, NetWords, Returned}
use Rattle.linked_copy.specs.Telling.{Tells}
use Rattle.linked_copy.specs.declared.ends.CopyEnd.{CopyEnd}
use Rattle.linked_copy.proofs.Booked.{dialed_returns}

-- both links were hung up that were dialed
both_returned : (told : Type 0) (before middle now : Books) (source dest : Standing) → (told → Dials 2 before middle)
    → HungUp told middle now (source ∷ dest ∷ []) → Returned told before now (source ∷ dest ∷ [])
both_returned told before middle now source dest dials hangs =
    λ t. dialed_returns 2 (source ∷ dest ∷ []) before middle now (dials t) (hangs t) (omega arith)

-- they are hung up as they stand
pub hung_as : (told : Type 0) (before now : Books) (source dest source_link dest_link : Standing) → source_link ≡ source → dest_link ≡ dest
    → HungUp told before now (source_link ∷ dest_link ∷ []) → HungUp told before now (source ∷ dest ∷ [])
hung_as told before now source dest source_link dest_link source_is dest_is hung =
    subst (λ (link : Standing). HungUp told before now (link ∷ dest ∷ [])) source_is
    (subst (λ (link : Standing). HungUp told before now (source_link ∷ link ∷ [])) dest_is hung)

module _ {M W : Type 0} (conduct : Conduct M W) (setting : Setting M) (draws : W) (told : Type 0) (before middle now : Books) where
  made_back : (copied : Copied) → (told → Dials 2 before middle) → Made conduct setting draws (HungUp told middle now) copied
      → Made conduct setting draws (Returned told before now) copied
  made_back copied dials made = record {
    old = made.old;
    now = made.now;
    begins = made.begins;
    copies = made.copies;
    cause = made.cause;
    hung = both_returned told before middle now made.now.source.link made.now.dest.link dials made.hung;
  }

  starved_back : (told → Dials 2 before middle) → Starved conduct setting draws (HungUp told middle now)
      → Starved conduct setting draws (Returned told before now)
  starved_back dials starved = record {
    old = starved.old;
    source = starved.source;
    dest = starved.dest;
    client = starved.client;
    begins = starved.begins;
    starves = starved.starves;
    hung = both_returned told before middle now starved.source.link starved.dest.link dials starved.hung;
  }

  -- by a client of this setting
  pub made_returned : (own : Setting M) (copied : Copied) → own ≡ setting → (told → Dials 2 before middle)
      → Made conduct own draws (HungUp told middle now) copied → Made conduct setting draws (Returned told before now) copied
  made_returned own copied is dials made =
      made_back copied dials (subst (λ (s : Setting M). Made conduct s draws (HungUp told middle now) copied) is made)

  pub starved_returned : (own : Setting M) → own ≡ setting → (told → Dials 2 before middle) → Starved conduct own draws (HungUp told middle now)
      → Starved conduct setting draws (Returned told before now)
  starved_returned own is dials starved =
      starved_back dials (subst (λ (s : Setting M). Starved conduct s draws (HungUp told middle now)) is starved)

module _ {M W N : Type 0} (conduct : Conduct M W) (setting : Setting M) (n : NetWords N) (draws : W)
    (taken taken_now : Option (List ℕ)) (writes writes_now : ℕ) (net net_now : N) where
  told_by : (copied : Copied) → CopyMade conduct setting n draws net net_now copied → Appends taken taken_now (lines_of copied)
      → CopyEnds conduct setting n draws taken taken_now writes writes_now net net_now (end_of copied)
  told_by (Stable exact) made puts = record { copied = Stable exact; is = refl; made = made; puts = puts }
  told_by (Failed status) made puts = record { copied = Failed status; is = refl; made = made; puts = puts }
  told_by (LinkFault stable) made puts = record { copied = LinkFault stable; is = refl; made = made; puts = puts }
  told_by DrawFault made puts = record { copied = DrawFault; is = refl; made = made; puts = puts }

  -- the end of a copy that was made
  pub told_ends : (copied : Copied) (end : CopyEnd) → CopyMade conduct setting n draws net net_now copied
      → Tells taken taken_now writes writes_now copied end → CopyEnds conduct setting n draws taken taken_now writes writes_now net net_now end
  told_ends copied end made (inl (inl all)) =
      subst (λ (e : CopyEnd). CopyEnds conduct setting n draws taken taken_now writes writes_now net net_now e) (sym all.0) (told_by copied made all.1)
  told_ends copied end made (inl (inr cut)) =
      subst (λ (e : CopyEnd). CopyEnds conduct setting n draws taken taken_now writes writes_now net net_now e) (sym cut.end_is)
      (cut.rose, record { copied = copied; made = made; puts = cut.puts })
  told_ends copied end made (inr none) =
      subst (λ (e : CopyEnd). CopyEnds conduct setting n draws taken taken_now writes writes_now net net_now e) (sym none.end_is) (
        none.puts,
        inr (inr (record {
          status = none.status;
          made = subst (λ (c : Copied). CopyMade conduct setting n draws net net_now c) none.is made;
        })),
      )
