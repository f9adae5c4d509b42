-- Two nets at a stage that differ only in what is barred: which sets are legal and smallest in the one, where it bars no more inside present wires than the
-- other, or the same.
-- Assumes nothing.
use Rattle.std.specs.Prelude.{ℕ, ◌<◌, ◌≤◌, ◌≡◌, refl, Bool, true, false, List}
use Rattle.std.proofs.Common.{sym, ◌∙◌, arith}
use Rattle.net.specs.Stage.{Stage}
use Rattle.pieces.specs.Piece.{Points, Element, node, step, is_real, Touch, along, foot, head, via, Connected, touching, same, back, chain, Group, Piece, is_harmful, has_gate, has_source, weight_of}
use Rattle.pieces.specs.Legal.{Legal, size, listed, Smallest, NoneLegal}
use Rattle.pieces.specs.Size.{listed-size}

-- a net at a stage with other points barred
abbrev pub barred_by : Stage → (ℕ → ℕ → Bool) → Stage
barred_by s other =
    record {
      nodes = s.nodes;
      parent = s.parent;
      len = s.len;
      factor = s.factor;
      layer = s.layer;
      present = s.present;
      gate = s.gate;
      source = s.source;
      barred = other;
    }

-- no point inside a present wire is barred that was not
abbrev pub NoMoreBarred : Stage → (ℕ → ℕ → Bool) → Type 0
NoMoreBarred s other = (i t : ℕ) → s.present i ≡ true → 1 ≤ t → t < s.len i → s.barred i t ≡ false → other i t ≡ false

-- the same points inside present wires are barred
abbrev pub SameBarred : Stage → (ℕ → ℕ → Bool) → Type 0
SameBarred s other = (i t : ℕ) → s.present i ≡ true → 1 ≤ t → t < s.len i → s.barred i t ≡ other i t

-- pieces have nothing to do with what is barred
module _ {s : Stage} {other : ℕ → ℕ → Bool} where
  touch_same : {J : Points} {d e : Element} → Touch s J d e → Touch (barred_by s other) J d e
  touch_same (along p l h j) = along p l h j
  touch_same (foot p l) = foot p l
  touch_same (head p l) = head p l
  touch_same (via p l) = via p l

  connected-same : {J : Points} {d e : Element} → Connected s J d e → Connected (barred_by s other) J d e
  connected-same (touching t) = touching (touch_same t)
  connected-same same = same
  connected-same (back x) = back (connected-same x)
  connected-same (chain x y) = chain (connected-same x) (connected-same y)

real_same : (s : Stage) (other : ℕ → ℕ → Bool) (e : Element) → is_real s e ≡ is_real (barred_by s other) e
real_same s other (node i) = refl
real_same s other (step i t) = refl

piece_back : {s : Stage} {other : ℕ → ℕ → Bool} {J : Points} {P : Group} → Piece (barred_by s other) J P → Piece s J P
piece_back {s} {other} p =
    record {
      one = p.one;
      has_one = p.has_one;
      real = λ e h. real_same s other e ∙ p.real e h;
      connected = λ d e g h. connected-same {s = barred_by s other} {other = s.barred} (p.connected d e g h);
      largest = λ d e g h. p.largest d e g (connected-same h);
    }

-- ---- what is legal stays so where no more is barred; so where none is legal then, none was, and a smallest set has no more points than one had
module _ {s : Stage} {other : ℕ → ℕ → Bool} (less : NoMoreBarred s other) where
  pub legal_less : {limit : ℕ} {J : Points} → Legal s limit J → Legal (barred_by s other) limit J
  unfolding is_harmful has_gate has_source weight_of
  legal_less l =
      record {
        free = λ i t h.
            let f = l.free i t h in record { present = f.present; low = f.low; high = f.high; clear = less i t f.present f.low f.high f.clear };
        harmless = λ P p. l.harmless P (piece_back p);
      }

  pub none_legal_more : {limit : ℕ} → NoneLegal (barred_by s other) limit → NoneLegal s limit
  none_legal_more n jumpers l = n jumpers (legal_less l)

  pub smallest_less : {limit : ℕ} {list list' : List ℕ} {n m : ℕ} → Smallest s limit list n → Smallest (barred_by s other) limit list' m → m ≤ n
  unfolding size
  smallest_less {list} {n} a b =
      let p = b.fewest (listed list n) (legal_less a.legal) in
      let q = listed-size s list n in
      omega arith

-- ---- where the same points are barred, the same sets are legal and the same lists are smallest
module _ {s : Stage} {other : ℕ → ℕ → Bool} (agree : SameBarred s other) where
  legal-same : {limit : ℕ} {J : Points} → Legal s limit J → Legal (barred_by s other) limit J
  legal-same = legal_less {s = s} {other = other} (λ i t p low high clear. sym (agree i t p low high) ∙ clear)

  legal-back : {limit : ℕ} {J : Points} → Legal (barred_by s other) limit J → Legal s limit J
  legal-back = legal_less {s = barred_by s other} {other = s.barred} (λ i t p low high clear. agree i t p low high ∙ clear)

  pub none_legal_same : {limit : ℕ} → NoneLegal s limit → NoneLegal (barred_by s other) limit
  none_legal_same n jumpers l = n jumpers (legal-back l)

  pub smallest-same : {limit : ℕ} {list : List ℕ} {n : ℕ} → Smallest s limit list n → Smallest (barred_by s other) limit list n
  unfolding size
  smallest-same m =
      record { whole = m.whole; rising = m.rising; legal = legal-same m.legal; fewest = λ J l. m.fewest J (legal-back l) }
