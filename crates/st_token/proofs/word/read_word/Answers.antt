use Rattle.std.proofs.Common.{◌+◌, take, drop, arith}
use Rattle.std.proofs.lemmas.List.{take_rest}
use Rattle.std.proofs.lemmas.Result.{err_from_is_err_and}
use Rattle.st_token.proofs.Words.{word_len-is, word_within, word_at-token, word_at-fault, word_kind-one_byte}
use Rattle.st_token.proofs.word.read_word.Goals as goal

pub returns-in_err-kind-clause-read : goal.returns-in_err-kind-clause-read
returns-in_err-kind-clause-read c =
    let bytes = c.args.bytes.now in
    let len = word_len-is bytes c.args.from c.unwrap_or-len.result _ c.first_end.ensures c.unwrap_or-len.ensures in
    let p = err_from_is_err_and c.from_residual.result c.from_residual.ensures.1 in
    rw (p.1, p.2) (word_at-fault bytes c.args.from c.unwrap_or-len.result _ (omega arith) len (rw take_rest at c.in_err-kind.ensures))

pub returns-clause-read : goal.returns-clause-read
returns-clause-read c =
    let bytes = c.args.bytes.now in
    let len = word_len-is bytes c.args.from c.unwrap_or-len.result _ c.first_end.ensures c.unwrap_or-len.ensures in
    word_at-token bytes c.args.from c.unwrap_or-len.result c.in_ok-kind.kind (omega arith) len (rw take_rest at c.in_ok-kind.ensures)

pub returns-clause-within : goal.returns-clause-within
returns-clause-within c =
    let bytes = c.args.bytes.now in
    let from = c.args.from in
    let len = c.unwrap_or-len.result in
    let is = word_len-is bytes from len _ c.first_end.ensures c.unwrap_or-len.ensures in
    let inside = word_within bytes from c.requires.at c.requires.begins in
    record {
      begins = omega arith;
      some = omega arith;
      ends = omega arith;
      one_byte = word_kind-one_byte from (take len (drop from bytes)) c.in_ok-kind.kind (from + len) (rw take_rest at c.in_ok-kind.ensures);
    }
