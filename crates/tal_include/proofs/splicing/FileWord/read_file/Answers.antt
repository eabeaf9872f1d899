use Rattle.std.proofs.lemmas.Result.{err_from_is_err_and}
use Rattle.uxn_io_traits.specs.ByteList.{ByteList}
use Rattle.uxn_io_traits.specs.declared.trees.FileBytes.{FileBytes}
use Rattle.uxn_io_traits.specs.AskingLaws.{inquires-stop, inquires-last}
use Rattle.tal_include.specs.Includes.{bytes_or_kind}
use Rattle.tal_include.specs.Splice.{found_at}
use Rattle.tal_include.proofs.splicing.FileWord.read_file.Goals as goal

pub returns-in_err-file : goal.returns-in_err-file
returns-in_err-file g c =
    let p = err_from_is_err_and c.from_residual.result c.from_residual.ensures.1 in
    rw (p.1, p.2) (inquires-stop (λ (file : FileBytes). file) (λ (bytes : ByteList). bytes.list) _ _ _ _ c.in_err-file.field-0.0 c.in_err-file.ensures)

pub returns : goal.returns
returns g c =
    inquires-last (λ (file : FileBytes). file) (λ bytes. bytes.list) _ (λ file. found_at c.args.self.now.origin c.args.self.now.text.now (bytes_or_kind file))
    _ _ c.in_ok-file.file _ c.in_ok-file.ensures c.bytes_of.ensures
