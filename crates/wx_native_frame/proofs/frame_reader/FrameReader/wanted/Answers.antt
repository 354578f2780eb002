use Rattle.std.proofs.Common.{◌≡◌, ◌+◌, ◌-◌, ◌∙◌, sym, subst, arith, length}
use Rattle.wx_native_frame.specs.Frames.{Unfinished, told_length, IsTrouble, IsTroubleFirst, IsUnderWay}
use Rattle.wx_native_frame.specs.declared.FrameFault.{FrameFault}
use Rattle.wx_native_frame.proofs.ReaderLaws.{trouble_of, under_way_of, first_of, wanted_of}
use Rattle.wx_native_frame.proofs.frame_reader.FrameReader.wanted.Goals as goal

pub returns-then-is_some-clause-text : goal.returns-then-is_some-clause-text
returns-then-is_some-clause-text c = λ le u.
    let P : Unfinished → Type 0 = λ v. (f : FrameFault) × IsTrouble v.bytes v.limit f in
    let (f, h) = subst P c.self.view_is (trouble_of c.self.inside c.self.invariant (sym c.is_some.ensures ∙ c.if-is_some.true)) in
    absurd (u.no_trouble f h)

pub returns-then-is_some-clause-zero : goal.returns-then-is_some-clause-zero
returns-then-is_some-clause-zero c = λ e.
    let P : Unfinished → Type 0 = λ v. (f : FrameFault) × IsTrouble v.bytes v.limit f in
    subst P c.self.view_is (trouble_of c.self.inside c.self.invariant (sym c.is_some.ensures ∙ c.if-is_some.true))

pub returns-then-have-lt4-clause-under_way : goal.returns-then-have-lt4-clause-under_way
returns-then-have-lt4-clause-under_way c = λ more.
    let P : Unfinished → Type 0 = λ v. IsUnderWay v.bytes v.limit in
    subst P c.self.view_is (under_way_of c.self.inside c.self.invariant (sym c.is_some.ensures ∙ c.if-is_some.false))

pub returns-clause-text : goal.returns-clause-text
returns-clause-text c = λ le u.
    let a = c.self.inside in
    let P : Unfinished → Type 0 = λ v. (told_length c.self.inside.head - length c.self.inside.text.items) + length v.bytes ≡ 4 + told_length v.bytes in
    let four = c.if-have-lt4.false in
    let counted = c.len-have.ensures.len in
    let e = subst P c.self.view_is (wanted_of c.self.inside c.self.invariant (sym c.is_some.ensures ∙ c.if-is_some.false) (omega (arith, four, counted))) in
    omega (arith, e, c.length.ensures.told, c.len.ensures)

pub returns-clause-fault : goal.returns-clause-fault
returns-clause-fault c = λ f h.
    let P : Unfinished → Type 0 = λ v. IsUnderWay v.bytes v.limit in
    let u = subst P c.self.view_is (under_way_of c.self.inside c.self.invariant (sym c.is_some.ensures ∙ c.if-is_some.false)) in
    absurd (u.no_trouble f h)

pub returns-clause-under_way : goal.returns-clause-under_way
returns-clause-under_way c = λ more.
    let P : Unfinished → Type 0 = λ v. IsUnderWay v.bytes v.limit in
    subst P c.self.view_is (under_way_of c.self.inside c.self.invariant (sym c.is_some.ensures ∙ c.if-is_some.false))

pub returns-then-is_some-clause-first : goal.returns-then-is_some-clause-first
returns-then-is_some-clause-first c = let P : Unfinished → Type 0 = λ v. IsTroubleFirst v.bytes v.limit in subst P c.self.view_is (first_of c.self.inside c.self.invariant)

pub returns-then-have-lt4-clause-first : goal.returns-then-have-lt4-clause-first
returns-then-have-lt4-clause-first c = let P : Unfinished → Type 0 = λ v. IsTroubleFirst v.bytes v.limit in subst P c.self.view_is (first_of c.self.inside c.self.invariant)

pub returns-clause-first : goal.returns-clause-first
returns-clause-first c = let P : Unfinished → Type 0 = λ v. IsTroubleFirst v.bytes v.limit in subst P c.self.view_is (first_of c.self.inside c.self.invariant)
